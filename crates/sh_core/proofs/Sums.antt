-- Sums and writes, which say little or nothing of a heap. Tests of numbers and truth values. Sums over the passes after
-- a change of one of them. How often an item is in a list, and what is at a place after a write. Pages by their
-- numbers, and the slots and payload words of a page.
pub mod Tests
pub mod Totals
pub mod ListCounts
pub mod Writes
pub mod PageNumbers
pub mod Payload
pub mod ClassSlots
