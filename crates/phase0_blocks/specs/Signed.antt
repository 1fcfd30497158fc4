-- Signed messages as values of their shapes.
use Rattle.phase0_types.specs.Shapes.{Shape}
use Rattle.phase0_types.specs.Values.{ValueOf}
use Rattle.phase0_types.specs.Containers.{signed}
use Rattle.phase0_blocks.specs.declared.signed.Signed.{Signed}

unfoldable pub signed_value : {X : Type 0} (shape : Shape) → (X → ValueOf shape) → Signed X → ValueOf (signed shape)
unfolding signed
signed_value shape value it = (value it.message, (it.signature.0, tt))
