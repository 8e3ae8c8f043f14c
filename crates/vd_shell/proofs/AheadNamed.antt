-- Each file at its place among those that are read ahead.
use Rattle.std.proofs.Common.{arith, ◌<◌, ℕ, zero, suc, codes, inl, inr, refl, sym, subst}
use Rattle.vd_base.specs.Limits.{most_deal_bytes}
use Rattle.vd_cmd.specs.declared.command.Command.TheVariants.{OnFiles}
use Rattle.vd_cmd.specs.declared.command.ExcuseWords.{ExcuseWords}
use Rattle.vd_cmd.specs.declared.command.FilesCommand.TheVariants.{Excuse, Replay}
use Rattle.vd_cmd.specs.declared.command.KeySource.{KeySource}
use Rattle.vd_cmd.specs.declared.command.ReplayWords.{ReplayWords}
use Rattle.vd_cmd_plan.specs.Numbered.{file_name}
use Rattle.vd_shell.specs.Ahead.{file, key_files}
use Rattle.vd_shell.specs.NamedAhead.{IsAhead, IsAmong, NamedFilesAreAhead}

replayed : (words : ReplayWords) (number : ℕ) → number < 4 → IsAhead (OnFiles (Replay words)) (file_name words.prefix number (codes ".deal")) most_deal_bytes
replayed words zero below = inr (inr (inl refl))
replayed words (suc zero) below = inr (inr (inr (inl refl)))
replayed words (suc (suc zero)) below = inr (inr (inr (inr (inl refl))))
replayed words (suc (suc (suc zero))) below = inr (inr (inr (inr (inr (inl refl)))))
replayed words (suc (suc (suc (suc number)))) below = absurd (omega (arith, below))

excused : (words : ExcuseWords) (number : ℕ) → number < 4 → IsAhead (OnFiles (Excuse words)) (file_name words.prefix number (codes ".deal")) most_deal_bytes
excused words zero below = inr (inr (inr (inl refl)))
excused words (suc zero) below = inr (inr (inr (inr (inl refl))))
excused words (suc (suc zero)) below = inr (inr (inr (inr (inr (inl refl)))))
excused words (suc (suc (suc zero))) below = inr (inr (inr (inr (inr (inr (inl refl))))))
excused words (suc (suc (suc (suc number)))) below = absurd (omega (arith, below))

pub named_ahead : NamedFilesAreAhead
named_ahead = record {
  clear = λ source inputs. (inl refl, inr (inl refl));
  labels = λ source. inl refl;
  choose = λ source budget. inl refl;
  draw = λ source budget. inl refl;
  reveals = λ words. inl refl;
  certify = λ source certificate. (inl refl, inr (inl refl));
  compile = λ source prefix budget. inl refl;
  early = λ words. inl refl;
  needs = λ words. inl refl;
  depends = λ source names. inl refl;
  influences = λ source host. inl refl;
  column = λ words. inl refl;
  report = λ words. (inl refl, inr (inl refl));
  key = λ words name same. subst (λ (k : KeySource). IsAmong (file name 32) (key_files k)) (sym same) (inl refl);
  replay = λ words. (inl refl, inr (inl refl), inr (inr (inr (inr (inr (inr (inl refl)))))));
  replayed_deals = λ words. replayed words;
  excuse = λ words. (inl refl, inr (inl refl), inr (inr (inl refl)));
  excused_deals = λ words. excused words;
  host = λ words. (inl refl, inr (inl refl), inr (inr (inl refl)));
  check = λ words. (inl refl, inr (inl refl), inr (inr (inl refl)));
  run = λ words. inl refl;
}
