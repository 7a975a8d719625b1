-- Document 01, "The exam program".
pub mod Text
pub mod Screen
pub mod Answer
pub mod Grammar
pub mod Rules
pub mod Question
pub mod Inner
pub mod Marking
