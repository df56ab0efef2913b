mod AskedAt
mod Begun
mod ClockRuns
mod Looks
