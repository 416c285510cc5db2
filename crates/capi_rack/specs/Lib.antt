pub mod RackInterface
pub mod RackClaims
