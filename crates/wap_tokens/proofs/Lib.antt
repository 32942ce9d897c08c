pub mod Found
pub mod TagTable
pub mod AttributeTable
pub mod ValueTable
