use Rattle.std.proofs.Common.{◌≡◌, Bool, true, false, ◌||◌, sym, ◌∙◌}
use Rattle.vd_draw_rows.proofs.parts.takes_part_in_either.Goals as goal

by_first : (result first other : Bool) → result ≡ first → result ≡ true → result ≡ (first || other)
by_first result first other is some = some ∙ (λ i. (sym some ∙ is) i || other)

by_other : (before result first other : Bool) → before ≡ first → before ≡ false → result ≡ other → result ≡ (first || other)
by_other before result first other is none same = same ∙ (λ i. (sym none ∙ is) i || other)

pub returns-then-takes_part : goal.returns-then-takes_part
returns-then-takes_part c = λ source p. by_first c.takes_part.result _ _ (c.takes_part.ensures source p) c.if-takes_part.true

pub returns-else-takes_part : goal.returns-else-takes_part
returns-else-takes_part c = λ source p. by_other c.takes_part.result c.takes_part-else-takes_part.result _ _ (c.takes_part.ensures source p) c.if-takes_part.false (c.takes_part-else-takes_part.ensures source p)
