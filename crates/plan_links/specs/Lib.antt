pub mod PlanTable
pub mod PlanTableLaws
pub mod Refusals
pub mod PlanFormed
pub mod PlanFormedLaws
pub mod LinkIndex
pub mod LinkIndexLaws
