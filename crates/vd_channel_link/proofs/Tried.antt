-- What stays of what a net seals by.
use Rattle.std.proofs.Common.{arith, ◌≡◌, ◌∙◌, ℕ, refl, sym, ap, subst}
use Rattle.vd_outside.specs.Link.{LinkView}
use Rattle.vd_channel_crypto.specs.Hellos.{nonce_of}
use Rattle.vd_channel_link.specs.declared.session.Session.{Session}
use Rattle.vd_channel_link.specs.Seals.{IsKeyFor, IsKeyless, IsMet, Tries}
use Rattle.vd_channel_link.specs.declared.channel_net.seal.Seal.{Seal}

pub tries_none : (before now : Seal) → now ≡ before → Tries before now
tries_none before now same = subst (λ (s : Seal). Tries before s) (sym same) (record { same = refl; later = omega arith })

pub tries_more : (first second third : Seal) → Tries first second → Tries second third → Tries first third
tries_more first second third a b =
    let one = a.later in
    let two = b.later in
    record { same = b.same ∙ ap (λ (s : Seal). record s { tried = third.tried }) a.same; later = omega (arith, one, two) }

pub no_key : (seal : Seal) (peer awaited : ℕ) → peer ≡ awaited → IsKeyless seal peer → IsKeyless seal awaited
no_key seal peer awaited same none = subst (λ (n : ℕ). IsKeyless seal n) same none

-- a number that is new behind later connections is new behind earlier ones
pub met_later : (first second : Seal) (tried peer awaited : ℕ) (session : Session) (came given : LinkView) → Tries first second → peer ≡ awaited
    → IsMet second tried peer session came given → IsMet first tried awaited session came given
met_later first second tried peer awaited session came given tries same met =
    let kept = tries.same in
    let later = tries.later in
    let new = met.is_new in
    record {
      mine = met.mine;
      id = met.id ∙ ap (λ (s : Seal). s.secrets.id) kept;
      from = met.from ∙ ap (λ (s : Seal). s.me) kept;
      to = met.to ∙ same;
      connection = met.connection;
      is_new = omega (arith, later, new);
      is_counted = met.is_counted;
      nonce = met.nonce ∙ ap (λ (s : Seal). nonce_of s.seed peer met.connection) kept ∙ ap (λ (p : ℕ). nonce_of first.seed p met.connection) same;
      key = met.key;
      is_key = subst (λ (s : Seal). IsKeyFor s.me.0 s.secrets awaited met.key) kept (subst (λ (p : ℕ). IsKeyFor second.me.0 second.secrets p met.key) same met.is_key);
      met = met.met;
      fresh = met.fresh;
    }
