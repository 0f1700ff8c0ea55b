-- What is kept besides `Agreement`, a file each. What a pass read of keys is true, and what a part names is in the
-- heap. Holds have room, and words that were noted are of the value. A retired slot is in its last generation, and a
-- flag is alone in its word. A key ends once. Rows have places and counts of the heap, and store words.
pub mod ReadNotes
pub mod StaysInHeap
pub mod HoldsInBound
pub mod WordNotes
pub mod LastGenerations
pub mod Flags
pub mod PlacesInHeap
pub mod RowsFit
pub mod Looks
pub mod OneEnd
pub mod Ends
