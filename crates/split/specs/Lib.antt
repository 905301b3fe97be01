pub mod Splitting
pub mod Tensors
pub mod TensorLaws
pub mod LabelLaws
pub mod SplittingLaws
pub mod LeastTensorLaws
