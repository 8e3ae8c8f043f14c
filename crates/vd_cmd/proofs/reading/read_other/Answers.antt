use Rattle.std.proofs.Common.{◌≡◌, ◌∙◌, Option, arith, subst, sym}
use Rattle.std.proofs.lemmas.Bool.{ltb-true}
use Rattle.vd_cmd.specs.Commands.{Reads, other_form_of, unhosted_form_of}
use Rattle.vd_cmd.specs.declared.command.Command.{Command}
use Rattle.vd_cmd.proofs.Behind.{behind_a_limit, without_words}
use Rattle.vd_cmd.proofs.reading.read_other.Goals as goal
use Rattle.vd_cmd.proofs.reading.read_other.Goals.{in_default-via-then-words-lt1, in_default-via-in-len1-up+else-eq}

pub returns-in_default : goal.returns-in_default
returns-in_default c =
    let behind : other_form_of c.args.words.now ≡ unhosted_form_of c.args.words.now =
    elim c.in_default-1.branch [
      | in_default-via-then-words-lt1 w ↦ without_words c.args.words.now (ltb-true _ _ w.if-words-lt1-1.true)
      | in_default-via-in-len1-up+else-eq w ↦ behind_a_limit c.args.words.now w.word-item.result (omega arith) w.word-item.is (rw (← w.as_str.ensures) (sym w.eq.ensures ∙ w.if-eq.false))
    ] in
    subst (λ (form : Option Command). Reads form c.read_unhosted.result) (sym behind) c.read_unhosted.ensures
