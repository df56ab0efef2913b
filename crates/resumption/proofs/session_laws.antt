pub mod SessionLogs
