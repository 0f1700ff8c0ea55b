-- What words say of lists and owners: the links of stacks, chains and bells (`StackSteps`), the duty to ring, the owner
-- words, and what an owner notes. Each move that touches one of these has a lemma here, and `lists_frame` of
-- `ListsSteps` is for the others.
pub mod StackSteps
pub mod StackKinds
pub mod BellRings
pub mod BellTakes
pub mod OwnerKinds
pub mod ListsSteps
