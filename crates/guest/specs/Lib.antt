pub mod GuestWalk
