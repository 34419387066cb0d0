pub mod LaneShots
