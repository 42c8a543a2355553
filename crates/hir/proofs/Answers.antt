-- From what a call ensures and what the `match` on its answer found, to what the definition gives.
use mathlib.Core.Path.{◌≡◌, ◌∙◌, sym, ap}

pub says : {A B : Type 0} (f : A → B) {x z : A} {y : B} → x ≡ z → f x ≡ y → y ≡ f z
says f q p = sym p ∙ ap f q
