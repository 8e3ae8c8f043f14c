use Rattle.vd_bound.proofs.Yes.{yes_is_sound, sound_is_yes}
use Rattle.vd_bound.proofs.laws.accepted_certificates_are_sound.Goals as goal

pub returns : goal.returns
returns c = record {
  accepted = sound_is_yes;
  sound = yes_is_sound;
}
