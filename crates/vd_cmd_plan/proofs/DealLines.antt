-- The lines of deals.
use Rattle.std.proofs.Common.{◌≡◌, ℕ, List, ◌++◌, Result, subst, codes}
use Rattle.std.specs.Fmt.{decimal}
use Rattle.vd_outside.specs.Sink.{SinkView, WritesAll}
use Rattle.vd_tape.specs.declared.deal_items.deal.BadItem.{BadItem}
use Rattle.vd_tape.specs.declared.deal_items.deal.DealKind.{DealKind}
use Rattle.vd_cmd_plan.specs.Shown.{shown}
use Rattle.vd_cmd_plan.specs.Lines.{bad_deal_line, deal_line, kind_name, short_deal_line}

pub deal_written : {E : Type 0} (name : List ℕ) (offset : ℕ) (o : List ℕ) (before now : SinkView) (result : Result (Unit {0}) E) → o ≡ decimal offset
    → WritesAll {E = E} (codes "viaduct: deal text " ++ (shown name ++ (codes " at " ++ (o ++ codes "\n")))) before now result → WritesAll {E = E} (deal_line name offset) before now result
deal_written {E = E} name offset o before now result is w =
    subst (λ (l : List ℕ). WritesAll {E = E} (codes "viaduct: deal text " ++ (shown name ++ (codes " at " ++ (l ++ codes "\n")))) before now result) is w

abbrev bad_text : (kind first second index left right : List ℕ) → List ℕ
bad_text kind first second index left right =
    codes "viaduct: bad deal " ++ (kind ++ (codes " " ++ (first ++ (codes " " ++ (second ++ (codes " " ++ (index ++ (codes " " ++ (left ++ (codes " " ++ (right ++ codes "\n")))))))))))

pub bad_written : {E : Type 0} (bad : BadItem) (kind first second index left right : List ℕ) (before now : SinkView) (result : Result (Unit {0}) E)
    → kind ≡ kind_name bad.kind → first ≡ decimal bad.first.0 → second ≡ decimal bad.second.0 → index ≡ decimal bad.index → left ≡ decimal bad.left → right ≡ decimal bad.right
    → WritesAll {E = E} (bad_text kind first second index left right) before now result → WritesAll {E = E} (bad_deal_line bad) before now result
bad_written {E = E} bad kind first second index left right before now result k f s i l r w =
    subst (λ (text : List ℕ). WritesAll {E = E} text before now result) (λ j. bad_text (k j) (f j) (s j) (i j) (l j) (r j)) w

abbrev short_text : (kind cursor count : List ℕ) → List ℕ
short_text kind cursor count = codes "viaduct: short deal " ++ (kind ++ (codes " " ++ (cursor ++ (codes " " ++ (count ++ codes "\n")))))

pub short_written : {E : Type 0} (kind : DealKind) (cursor count : ℕ) (k c n : List ℕ) (before now : SinkView) (result : Result (Unit {0}) E) → k ≡ kind_name kind → c ≡ decimal cursor → n ≡ decimal count
    → WritesAll {E = E} (short_text k c n) before now result → WritesAll {E = E} (short_deal_line kind cursor count) before now result
short_written {E = E} kind cursor count k c n before now result is_kind is_cursor is_count w =
    subst (λ (text : List ℕ). WritesAll {E = E} text before now result) (λ j. short_text (is_kind j) (is_cursor j) (is_count j)) w
