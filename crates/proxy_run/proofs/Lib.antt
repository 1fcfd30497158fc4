mod HandLemmas
mod BegunLemmas
mod LaneLemmas
mod EquipLemmas
mod DeskLemmas
