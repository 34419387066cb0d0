-- What is proved of the table and of the shots.
pub mod Table
pub mod GoodShots
pub mod Only
