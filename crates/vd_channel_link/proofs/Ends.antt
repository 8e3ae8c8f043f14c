-- Both ends of a link have the same keys.
use Rattle.std.proofs.Common.{◌≡◌, ◌≢◌, ◌∙◌, ℕ, List, ap, sym}
use Rattle.vd_channel_crypto.specs.Hellos.{digest_between, link_direction}
use Rattle.vd_channel_crypto.specs.Keys.{direction}
use Rattle.vd_channel_crypto.specs.declared.hellos.Hello.{Hello}
use Rattle.vd_channel_crypto.specs.declared.records.Keys.{Keys}
use Rattle.vd_channel_crypto.proofs.Front.{both_ends}
use Rattle.vd_channel_link.specs.ChannelHandshakeLaws.{EndsHaveTheSameKeys}

-- the keys that one end sends by are those that the other receives by, given the hello that it heard
one_way : (mine theirs heard said : Hello) (key : List ℕ) (ours others : Keys) → mine.from.0 ≢ theirs.from.0 → heard ≡ theirs → said ≡ mine
    → direction ours ≡ link_direction key mine.from.0 (digest_between mine heard)
    → direction others ≡ link_direction key said.from.0 (digest_between theirs said) → direction ours ≡ direction others
one_way mine theirs heard said key ours others apart here there own other =
    own
    ∙ ap (λ (h : Hello). link_direction key mine.from.0 (digest_between mine h)) here
    ∙ ap (link_direction key mine.from.0) (both_ends mine theirs apart)
    ∙ sym (ap (λ (s : Hello). link_direction key s.from.0 (digest_between theirs s)) there)
    ∙ sym other

pub same_keys : EndsHaveTheSameKeys
same_keys mine theirs key before now before_there now_there keys others apart here there heard said = record {
  sent = one_way mine theirs here.theirs there.theirs key keys.0 others.1 apart heard said here.own_key there.other_key;
  received = sym (one_way theirs mine there.theirs here.theirs key others.0 keys.1 (λ e. apart (sym e)) said heard there.own_key here.other_key);
}
