pub mod Fault
pub mod Drive
pub mod Calls
pub mod Memory
pub mod Store
pub mod MemStore
pub mod Folder
pub mod HostDrives
