pub mod OpenApplications
