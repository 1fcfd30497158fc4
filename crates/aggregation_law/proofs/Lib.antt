pub mod QuestionLemmas
pub mod CastLemmas
pub mod TaskLemmas
pub mod SoundLemmas
pub mod GivenLemmas
pub mod LaneLemmas
pub mod EarnLemmas
