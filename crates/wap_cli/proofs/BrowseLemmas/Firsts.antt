-- The first of some keys.
use Rattle.std.proofs.Common.{◌≡◌, ℕ, suc, ◌+◌, List, [], ◌∷◌, ◌++◌, length, take}
use Rattle.std.proofs.Common.{refl, sym, ap, ◌∙◌, append_assoc, arith, add-one}
use Rattle.std.proofs.Math.Seq.{take-length}
use Rattle.std.proofs.lemmas.List.{append-nil, take_at, length-append}
use Rattle.wap_devices.specs.Transfer.{Appends, AppendsPrefix}
use Rattle.wap_base.specs.declared.key.Key.{Key}
use Rattle.wap_world.specs.Steps.{Step}
use Rattle.wap_cli.specs.browse.Handling.{bytes_of, first_lines, first_asked}

-- ---- lists of keys

-- one key is one more
pub one_longer : (given : List Key) (key : Key) → length (given ++ key ∷ []) ≡ suc (length given)
one_longer given key = omega (arith, length-append given (key ∷ []))

-- ---- first steps

module _ (play : List Key → Step) (given : List Key) where
  -- all keys but the last are the first of all
  take_before : (key : Key) → take (length given) (given ++ key ∷ []) ≡ given
  take_before key = take_at given (key ∷ []) (length given) refl

  -- the lines before the last key, and what was asked for
  pub lines_before : (key : Key)
      → first_lines play (given ++ key ∷ []) (length (given ++ key ∷ [])) ≡ bytes_of (play given)
  lines_before key =
      ap (first_lines play (given ++ key ∷ [])) (one_longer given key)
      ∙ ap (λ (keys : List Key). bytes_of (play keys)) (take_before key)

  pub asked_before : (key : Key)
      → first_asked play (given ++ key ∷ []) (length (given ++ key ∷ [])) ≡ (play given).asked
  asked_before key =
      ap (first_asked play (given ++ key ∷ [])) (one_longer given key)
      ∙ ap (λ (keys : List Key). (play keys).asked) (take_before key)

  -- the lines of all keys, and what was asked for
  pub lines_all : first_lines play given (length given + 1) ≡ bytes_of (play given)
  lines_all =
      ap (first_lines play given) (add-one (length given))
      ∙ ap (λ (keys : List Key). bytes_of (play keys)) (take-length given)

  pub asked_all : first_asked play given (length given + 1) ≡ (play given).asked
  asked_all =
      ap (first_asked play given) (add-one (length given))
      ∙ ap (λ (keys : List Key). (play keys).asked) (take-length given)

-- ---- bytes

-- a prefix of some bytes is one of these and more
pub prefix_more : (before after bytes more all : List ℕ)
    → all ≡ bytes ++ more → AppendsPrefix before after bytes → AppendsPrefix before after all
prefix_more before after bytes more all is (prefix, rest, split, wrote) = (
  prefix,
  rest ++ more,
  is ∙ ap (λ (l : List ℕ). l ++ more) split ∙ append_assoc prefix rest more,
  wrote,
)

-- all bytes are a prefix of themselves
pub prefix_whole : (before after bytes : List ℕ)
    → Appends before after bytes → AppendsPrefix before after bytes
prefix_whole before after bytes wrote = (bytes, [], sym (append-nil bytes), wrote)
