-- What is printed of a choice is the drawing of its protocols, or the lines of hosts at them.
use Rattle.std.proofs.Common.{◌≡◌, ◌∙◌, ℕ, List, [], Ok, ap, refl, sym, subst}
use Rattle.vd_base.specs.declared.protocols.Proto.{Proto}
use Rattle.vd_core.specs.declared.normal.NormalForm.{NormalForm}
use Rattle.vd_constraints.specs.declared.labels.Labels.{Labels}
use Rattle.vd_draw_picture.specs.Picture.{drawn}
use Rattle.vd_search_stages.specs.declared.optimum.Assignment.{Assignment}
use Rattle.vd_cmd_plan.specs.Plans.{Computes, ended}
use Rattle.vd_cmd_plan.specs.declared.answer.Answer.{Answer}
use Rattle.vd_base.specs.declared.ids.HostId.{HostId}
use Rattle.vd_cmd_draw.specs.Drawing.{drawn_answer}
use Rattle.vd_cmd_draw.specs.Revealing.{revealed_answer}
use Rattle.vd_cmd_draw.specs.Reveals.{reveals_text}

-- the answer that prints a text
prints : (answer : Answer) (printed wanted : List ℕ) → answer ≡ ended [] printed → printed ≡ wanted → Computes (ended [] wanted) (Ok answer)
prints answer printed wanted is same =
    subst (λ (a : Answer). Computes (ended [] wanted) (Ok a)) (sym (is ∙ ap (λ (t : List ℕ). ended [] t) same)) (record { proper = (tt, refl); no_fault = λ file e. cc e; settled = refl })

-- the drawing of the protocols that were seen
pub draws : (program : NormalForm) (l : Labels) (name text : List ℕ) (a : Assignment) (answer : Answer) (printed shown : List ℕ) (seen : List Proto)
    → answer ≡ ended [] printed → printed ≡ drawn shown text program l seen → shown ≡ name → seen ≡ a.protocols → Computes (drawn_answer name text program l a) (Ok answer)
draws program l name text a answer printed shown seen is drawn_so named listed =
    prints answer printed (drawn name text program l a.protocols) is
    (drawn_so ∙ ap (λ (n : List ℕ). drawn n text program l seen) named ∙ ap (λ (s : List Proto). drawn name text program l s) listed)

-- the lines of the protocols that were seen
pub lists : (program : NormalForm) (text : List ℕ) (asked : List HostId) (a : Assignment) (answer : Answer) (printed : List ℕ) (seen : List Proto) → answer ≡ ended [] printed → printed ≡ reveals_text text program seen asked
    → seen ≡ a.protocols → Computes (revealed_answer text program asked a) (Ok answer)
lists program text asked a answer printed seen is so listed = prints answer printed (reveals_text text program a.protocols asked) is (so ∙ ap (λ (s : List Proto). reveals_text text program s asked) listed)
