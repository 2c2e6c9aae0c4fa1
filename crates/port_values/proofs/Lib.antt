pub mod DefaultLaws
pub mod LeafLaws
pub mod LiteralCases
