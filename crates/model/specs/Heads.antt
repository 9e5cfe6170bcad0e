-- The heads of a shape. Assumes nothing.
use Rattle.std.specs.Prelude.{◌<◌, slice_index}
use Rattle.model.specs.Shapes.{targets}
use Rattle.model.specs.declared.head.Head.{Head}
use Rattle.model.specs.declared.shape.Shape.{Shape}

-- the shape has the target, and the target has the value (a target that is not there has no value)
abbrev pub KnownHead : Shape → Head → Type 0
KnownHead s h = h.value < slice_index (targets s) h.target
