pub mod Lines
pub mod CertificateText
pub mod PlanText
pub mod inner
