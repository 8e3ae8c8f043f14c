-- The arcs without shifts, one switch more.
use Rattle.std.proofs.Common.{◌≡◌, ℕ, ◌+◌, ◌<◌, ◌≤◌, List, [], ◌∷◌, ◌++◌, length, drop, get_or, sym, ap, ◌∙◌, subst, arith, append_assoc, append-nil, add-one, drop-cons, slice_get}
use Rattle.std.specs.Option.{option_map_or}
use Rattle.vd_base.specs.declared.protocols.Proto.{Proto}
use Rattle.std.proofs.lemmas.List.{drop_all}
use Rattle.vd_space.specs.declared.problem.Problem.{Problem}
use Rattle.vd_space.specs.declared.problem.Guard.{Guard}
use Rattle.vd_cost_network_prefix.specs.declared.made.SwitchTable.{SwitchTable}
use Rattle.vd_cost_network_tables.specs.declared.raw.RawArc.{RawArc}
use Rattle.vd_cost_network_tables.specs.Raws.{raws_from, switch_raws}
use Rattle.vd_cost_network_tables.specs.Tables.{switch_tables_at, switch_tables_from}

drop_next : {X : Type 0} (xs : List X) (i : ℕ) (x : X) → i < length xs → drop i xs ≡ get_or xs i x ∷ drop (i + 1) xs
drop_next xs i x low = drop-cons xs i x low ∙ ap (λ n. get_or xs i x ∷ drop n xs) (sym (add-one i))

pub switch_more : (problem : Problem) (list : List Proto) (slots i : ℕ) (switches : List SwitchTable) (switch : SwitchTable) (arcs next whole : List RawArc) → i < length switches → switch ≡ get_or switches i switch
    → arcs ++ raws_from problem list (slots + i) (drop i switches) ≡ whole → next ≡ arcs ++ option_map_or (switch_raws list (slots + i) switch) (slice_get problem.guards switch.guard) []
    → next ++ raws_from problem list (slots + (i + 1)) (drop (i + 1) switches) ≡ whole
switch_more problem list slots i switches switch arcs next whole low is so_far added =
    let rest = raws_from problem list (slots + (i + 1)) (drop (i + 1) switches) in
    let item = option_map_or (switch_raws list (slots + i) switch) (slice_get problem.guards switch.guard) [] in
    let after : slots + (i + 1) ≡ slots + i + 1 = omega arith in
    let ends : drop i switches ≡ switch ∷ drop (i + 1) switches = drop_next switches i switch low ∙ ap (λ s. s ∷ drop (i + 1) switches) (sym is) in
    ap (λ front. front ++ rest) added
    ∙ append_assoc arcs item rest
    ∙ ap (λ n. arcs ++ (item ++ raws_from problem list n (drop (i + 1) switches))) after
    ∙ ap (λ more. arcs ++ raws_from problem list (slots + i) more) (sym ends)
    ∙ so_far

-- and the tables of switches, one guard more
pub tables_more : (problem : Problem) (i : ℕ) (guards own : List Guard) (guard : Guard) (tables next whole : List SwitchTable) → guards ≡ own → i < length guards → guard ≡ get_or guards i guard
    → tables ++ switch_tables_from problem i (drop i own) ≡ whole → next ≡ tables ++ switch_tables_at problem i guard → next ++ switch_tables_from problem (i + 1) (drop (i + 1) own) ≡ whole
tables_more problem i guards own guard tables next whole same low is so_far added =
    let rest = switch_tables_from problem (i + 1) (drop (i + 1) own) in
    let ends : drop i own ≡ guard ∷ drop (i + 1) own = subst (λ list. drop i list ≡ guard ∷ drop (i + 1) list) same (drop_next guards i guard low ∙ ap (λ g. g ∷ drop (i + 1) guards) (sym is)) in
    ap (λ front. front ++ rest) added
    ∙ append_assoc tables (switch_tables_at problem i guard) rest
    ∙ ap (λ more. tables ++ switch_tables_from problem i more) (sym ends)
    ∙ so_far

pub tables_all : (problem : Problem) (i : ℕ) (own : List Guard) (tables whole : List SwitchTable) → length own ≤ i → tables ++ switch_tables_from problem i (drop i own) ≡ whole → tables ≡ whole
tables_all problem i own tables whole past so_far =
    sym (append-nil tables) ∙ ap (λ more. tables ++ switch_tables_from problem i more) (sym (drop_all i own past)) ∙ so_far
