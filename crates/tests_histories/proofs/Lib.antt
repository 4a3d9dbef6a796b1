mod TaskHistories
mod SemaphoreHistories
mod FlagHistories
mod QueueHistories
mod ClockHistories
mod Histories
