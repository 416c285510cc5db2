pub mod RepliesFit
