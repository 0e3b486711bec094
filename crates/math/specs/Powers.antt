-- Document 01, "Coefficients": the two powers that the window takes of an f64, in the Rust's order of products. Assumes nothing.
use Rattle.std.specs.Prelude.{Float}
use Rattle.math.specs.Operators.{◌*ᵈ◌}

-- x * x
abbrev pub square : Float → Float
square x = x *ᵈ x

-- x * (x * x)
abbrev pub cube : Float → Float
cube x = x *ᵈ square x
