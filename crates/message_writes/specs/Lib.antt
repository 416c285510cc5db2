pub mod WriteMessage
