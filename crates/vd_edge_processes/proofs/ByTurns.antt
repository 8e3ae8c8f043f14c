-- Children that are read by turns.
use Rattle.std.proofs.Common.{◌≡◌, ℕ, zero, suc, Bool, false, List, [], ◌∷◌, Option, Some, None, slice_get, slice_set, sym, subst, ◌∙◌}
use Rattle.std.specs.Io.KnownBytes.{Keeps}
use Rattle.std.proofs.KnownBytes.{Keeps-refl, Keeps-trans}
use Rattle.std.proofs.lemmas.Option.{none-some}
use Rattle.vd_edge_processes.specs.Lines.{GivesLine}
use Rattle.vd_edge_processes.specs.Turns.{GivesLineOf, KeepAll, StillLeft}

still_since : (a b c : Bool) (x y z : Option (List ℕ)) → StillLeft a b x y → StillLeft b c y z → StillLeft a c x z
still_since a b c x y z one two is =
    let second = two is in
    let first = one second.0 in (first.0, Keeps-trans x y z first.1 second.1)

module _ {P : Type 0} (broken : P → Bool) (left : P → Option (List ℕ)) where
  abbrev Still : P → P → Type 0
  Still old new = StillLeft (broken old) (broken new) (left old) (left new)

  pub kept_first : (children : List P) → KeepAll broken left children children
  kept_first [] = tt
  kept_first (child ∷ children) = (λ is. (is, Keeps-refl (left child)), kept_first children)

  pub kept_since : (first before now : List P) → KeepAll broken left first before → KeepAll broken left before now → KeepAll broken left first now
  kept_since [] [] now one two = two
  kept_since [] (b ∷ before) now one two = absurd one
  kept_since (a ∷ first) [] now one two = absurd one
  kept_since (a ∷ first) (b ∷ before) [] one two = absurd two
  kept_since (a ∷ first) (b ∷ before) (c ∷ now) one two =
      (still_since (broken a) (broken b) (broken c) (left a) (left b) (left c) one.0 two.0, kept_since first before now one.1 two.1)

  -- one child goes on, and the same bytes of it are left
  pub kept_more : (first before : List P) (place : ℕ) (old new : P) → KeepAll broken left first before → slice_get before place ≡ Some old → Still old new
      → KeepAll broken left first (slice_set before place new)
  kept_more [] [] place old new all at keeps = absurd (none-some old at)
  kept_more [] (b ∷ before) place old new all at keeps = absurd all
  kept_more (a ∷ first) [] place old new all at keeps = absurd all
  kept_more (a ∷ first) (b ∷ before) zero old new all at keeps =
      let same : b ≡ old = cc at in (
        still_since (broken a) (broken b) (broken new) (left a) (left b) (left new) all.0 (subst (λ child. Still child new) (sym same) keeps),
        all.1,
      )
  kept_more (a ∷ first) (b ∷ before) (suc place) old new all at keeps = (all.0, kept_more first before place old new all.1 at keeps)

  -- one that can be read and is asked for its next line
  pub still_asked : (old new : P) → broken old ≡ false → Keeps (left old) (left new) → Still old new
  still_asked old new whole keeps = λ is. (whole, keeps)

  line_since : (a b c : Option (List ℕ)) (line : Option (List ℕ)) → Keeps a b → GivesLine b c line → GivesLine a c line
  line_since None b c line keeps gives = tt
  line_since (Some x) None c line keeps gives = absurd keeps
  line_since (Some x) (Some y) c line keeps gives = subst (λ (l : List ℕ). GivesLine (Some l) c line) keeps gives

  -- a child gives its next line
  pub line_of : (first before : List P) (place : ℕ) (old new : P) (line : Option (List ℕ)) → KeepAll broken left first before → slice_get before place ≡ Some old
      → broken old ≡ false → GivesLine (left old) (left new) line → GivesLineOf left place first (slice_set before place new) line
  line_of [] [] place old new line all at whole gives = absurd (none-some old at)
  line_of [] (b ∷ before) place old new line all at whole gives = absurd all
  line_of (a ∷ first) [] place old new line all at whole gives = absurd all
  line_of (a ∷ first) (b ∷ before) zero old new line all at whole gives =
      λ one child is now.
      let same : b ≡ old = cc at in
      let from : a ≡ one = cc is in
      let to : new ≡ child = cc now in
      let kept : Keeps (left a) (left old) = subst (λ x. Keeps (left a) (left x)) same (all.0 (subst (λ x. broken x ≡ false) (sym same) whole)).1 in
      subst (λ x. GivesLine (left x) (left child) line) from
      (subst (λ x. GivesLine (left a) (left x) line) to (line_since (left a) (left old) (left new) line kept gives))
  line_of (a ∷ first) (b ∷ before) (suc place) old new line all at whole gives = line_of first before place old new line all.1 at whole gives
