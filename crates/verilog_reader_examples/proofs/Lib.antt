pub mod LastModule
