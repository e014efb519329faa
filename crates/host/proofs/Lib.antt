pub mod HostSees
