-- Document 02, "Paper 5. Question authors write files".
pub mod Bodies
pub mod Files
pub mod Writer
pub mod Inner
