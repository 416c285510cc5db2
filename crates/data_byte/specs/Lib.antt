pub mod DataByte
