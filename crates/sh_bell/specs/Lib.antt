pub mod Bell
