-- Why an earlier host is left.
use Rattle.std.proofs.Common.{arith, ◌≡◌, ◌∙◌, ℕ, IsTrue, List, Ok, ap, sym, refl, subst}
use Rattle.vd_base.specs.declared.faults.CallFault.TheVariants as call_fault
use Rattle.vd_outside.specs.Causes.{Rose}
use Rattle.vd_outside.specs.Link.{LinkView}
use Rattle.vd_outside.specs.Net.{Connects, HangsUp, NetView}
use Rattle.vd_channel_crypto.specs.Hellos.{nonce_of}
use Rattle.vd_channel_crypto.specs.declared.hellos.Hello.{Hello}
use Rattle.vd_channel_link.specs.Meeting.{IsMeetFault}
use Rattle.vd_channel_link.specs.Seals.{IsKeyFor, IsKeyless, IsLeft, next_asked}
use Rattle.vd_channel_link.specs.Waits.{IsNotReached, NoKeyForIt, NoNumberLeft, NotGreeted}
use Rattle.vd_channel_link.specs.declared.channel_net.seal.Seal.{Seal}
use Rattle.vd_channel_link.specs.declared.fault.SealFault.{SealFault}
use Rattle.vd_channel_link.specs.declared.fault.SealFault.TheVariants as fault

pub left_for : (seal : Seal) (hello : Hello) (peer : ℕ) (key : List ℕ) (came left : LinkView) (why : SealFault)
    → hello.id ≡ seal.secrets.id → hello.from ≡ seal.me → hello.to.0 ≡ peer → hello.nonce ≡ nonce_of seal.seed peer seal.tried
    → IsKeyFor seal.me.0 seal.secrets peer key → (why ≡ fault.Peer → Rose came.faults left.faults)
    → (IsTrue left.told → IsMeetFault hello key came.coming why) → IsLeft seal peer came left why
left_for seal hello peer key came left why id from to nonce is_key failed refused = record {
  mine = hello;
  id = id;
  from = from;
  to = to;
  nonce = nonce;
  key = key;
  is_key = is_key;
  counted = λ is. (let rose = failed is in omega (arith, rose));
  refused = refused;
}

-- ---- of a seal that counts the next link that is asked for

pub no_key_for : (seal later : Seal) (peer : ℕ) (address : List ℕ) (start : NetView) → later ≡ next_asked seal → peer ≡ seal.connected
    → IsKeyless later peer → IsNotReached seal address start start call_fault.Failed
no_key_for seal later peer address start same is none =
    let here : IsKeyless later seal.connected = subst (λ (p : ℕ). IsKeyless later p) is none in
    let before : IsKeyless (next_asked seal) seal.connected = subst (λ (s : Seal). IsKeyless s seal.connected) same here in
    NoKeyForIt before refl

pub no_number_left : (seal later : Seal) (tried : ℕ) (address : List ℕ) (start : NetView) → later ≡ next_asked seal → tried ≡ later.tried
    → tried ≡ 4294967295 → IsNotReached seal address start start call_fault.Failed
no_number_left seal later tried address start same is used =
    let before : seal.tried ≡ 4294967295 = sym (ap (λ (s : Seal). s.tried) same) ∙ sym is ∙ used in
    NoNumberLeft before refl

left_before : (seal : Seal) (came left : LinkView) (why : SealFault) → IsLeft (next_asked seal) seal.connected came left why
    → IsLeft seal seal.connected came left why
left_before seal came left why is = record {
  mine = is.mine;
  id = is.id;
  from = is.from;
  to = is.to;
  nonce = is.nonce;
  key = is.key;
  is_key = is.is_key;
  counted = is.counted;
  refused = is.refused;
}

pub not_greeted : (seal later : Seal) (peer : ℕ) (address : List ℕ) (start net now : NetView) (came left : LinkView) (why : SealFault)
    → later ≡ next_asked seal → peer ≡ seal.connected → Connects address start net (Ok came) → IsLeft later peer came left why
    → HangsUp left net now → IsNotReached seal address start now call_fault.Failed
not_greeted seal later peer address start net now came left why same is connects leaves hangs =
    let here : IsLeft later seal.connected came left why = subst (λ (p : ℕ). IsLeft later p came left why) is leaves in
    let before : IsLeft (next_asked seal) seal.connected came left why =
    subst (λ (s : Seal). IsLeft s seal.connected came left why) same here in
    NotGreeted net came left why connects (left_before seal came left why before) hangs
