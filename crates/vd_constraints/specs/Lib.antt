pub mod Systems
pub mod Satisfies
pub mod Scoped
pub mod Extends
pub mod Rules
pub mod Origins
pub mod Outcomes
pub mod Asking
