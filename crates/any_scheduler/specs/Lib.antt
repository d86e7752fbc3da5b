pub mod AnyPolicy
