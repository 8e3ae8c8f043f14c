-- What is asked about the names of a source.
use Rattle.std.specs.Prelude.{ℕ, Bool, true, false, not, nat_eq, ◌&&◌, List, map, Option, Some, None}
use Rattle.std.specs.List.{filter, list_any}
use Rattle.vd_base.specs.declared.ids.Span.{Span}
use Rattle.vd_lsp_names.specs.declared.kinds.Declared.{Declared}
use Rattle.vd_lsp_names.specs.declared.kinds.Role.{Role}
use Rattle.vd_lsp_names.specs.declared.kinds.Role.TheVariants as role
use Rattle.vd_lsp_names.specs.declared.kinds.Use.{Use}

-- a declaration is known by the offset at which its name stands
abbrev pub declared_at : ℕ → Option Declared → Bool
declared_at declaration None = false
declared_at declaration (Some declared) = nat_eq declared.at.start declaration

abbrev pub is_of : ℕ → Use → Bool
is_of declaration name = declared_at declaration name.declared

abbrev pub places_of : ℕ → List Use → List Span
places_of declaration uses = map (λ name. name.at) (filter (is_of declaration) uses)

abbrev pub is_declaration : Use → Bool
is_declaration name = is_of name.at.start name

abbrev pub is_use_of : ℕ → Use → Bool
is_use_of declaration name = is_of declaration name && not (nat_eq name.at.start declaration)

-- principals and hosts may stand for themselves, and a loop has its name in any case
abbrev pub wants_use : Role → Bool
wants_use role.Principal = false
wants_use role.Host = false
wants_use role.Function = true
wants_use role.Parameter = true
wants_use role.Constant = true
wants_use role.Turn = false
wants_use role.Variable = true
wants_use role.Array = true

abbrev pub wanted : Option Declared → Bool
wanted None = false
wanted (Some declared) = wants_use declared.role

abbrev pub wants : Use → Bool
wants name = wanted name.declared

-- what is there to be used, and is not
abbrev pub is_unused : List Use → Use → Bool
is_unused uses name = is_declaration name && (wants name && not (list_any (is_use_of name.at.start) uses))

abbrev pub unused : List Use → List Span
unused uses = map (λ name. name.at) (filter (is_unused uses) uses)
