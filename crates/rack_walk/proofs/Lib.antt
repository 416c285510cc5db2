pub mod HearEnds
pub mod HearMore
