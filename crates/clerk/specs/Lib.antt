pub mod Clerk
