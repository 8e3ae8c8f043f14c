-- A program in which branches on what no host may read are selections.
use Rattle.std.specs.Prelude.{◌≡◌, Bool, ◌&&◌, if◌then◌else◌, Option}
use Rattle.std.specs.Option.{MatchOption}
use Rattle.vd_base.specs.declared.ids.SlotId.{SlotId}
use Rattle.vd_core.specs.declared.normal.NormalForm.{NormalForm}
use Rattle.vd_rewrite.specs.Rewriting.{kept_let, rewritings, rewritten, some_changed, is_within}
use Rattle.vd_mux.specs.BooleanGuards.{has_boolean_guards}

-- each Let stays
abbrev pub with_selections : (SlotId → Bool) → NormalForm → NormalForm
with_selections hides program = rewritten hides (kept_let program.slots) program

-- whether some If is hidden
abbrev pub some_hidden : (SlotId → Bool) → NormalForm → Bool
some_hidden hides program = some_changed (rewritings hides (kept_let program.slots) program.slots program.body)

-- a program without hidden Ifs stays as it is, and so does one that would break a limit
abbrev pub turned : (SlotId → Bool) → NormalForm → NormalForm
turned hides program =
    let new = with_selections hides program in
    if some_hidden hides program && is_within new then new else program

-- a program without boolean guards stays as it is
abbrev pub turned_where_boolean : (SlotId → Bool) → NormalForm → NormalForm
turned_where_boolean hides program = if has_boolean_guards program then turned hides program else program

-- the new program, or none where it is the old one
abbrev pub IsTurned : (SlotId → Bool) → NormalForm → Option NormalForm → Type 0
IsTurned hides program result = MatchOption result (turned_where_boolean hides program ≡ program) (λ new. new ≡ turned_where_boolean hides program)
