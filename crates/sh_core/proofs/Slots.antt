-- What adds up for each slot and each key. A step on one state word changes what a slot is to the passes together, and
-- what the log says of its key. Each kind of change has lemmas here: from one slot (`SlotSteps`) to all (`Slots`), and
-- from the log's entries (`Logs`, `Permits`) to the whole record `Sums`, which `SumsStep` puts together.
pub mod Slots
pub mod SlotSteps
pub mod SlotSums
pub mod FinishSums
pub mod FillSums
pub mod ClassSums
pub mod CrowdedAndClass
pub mod MarkStep
pub mod SumsStep
pub mod SumsKinds
pub mod Logs
pub mod Permits
