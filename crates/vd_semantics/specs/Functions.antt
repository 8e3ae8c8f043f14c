-- Functions in the order of the text, each of which sees those before it.
use Rattle.std.specs.Prelude.{List, [], ◌∷◌, ◌++◌}
use Rattle.vd_core.specs.declared.source.Function.{Function}
use Rattle.vd_base.specs.Names.{Named}

-- what each function is made into, by its name, from what those before it are made into
abbrev pub in_text_order : {A : Type 0} → (Function → Named A → A) → Named A → List Function → Named A
in_text_order make earlier [] = earlier
in_text_order make earlier (f ∷ fs) = in_text_order make (earlier ++ (f.name.name, make f earlier) ∷ []) fs
