pub mod Files
pub mod Services
pub mod TokenFiles
pub mod TokenPlaces
