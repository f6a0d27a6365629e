pub mod Accepting
pub mod Growths
pub mod Origins
