-- `AreTooLarge` of the builder, under this crate's name.
pub use Rattle.vortex_arrays_builder.specs.TooLarge.{AreTooLarge}
