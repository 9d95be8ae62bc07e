pub mod RollCalls
pub mod RollStands
pub mod SettleCalls
pub mod SettleStands
pub mod SubCalls
