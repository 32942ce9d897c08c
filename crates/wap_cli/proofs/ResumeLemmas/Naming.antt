-- The name of the page with the current card's deck.
use Rattle.std.proofs.Common.{◌≡◌, ℕ, true, false, List, [], ◌∷◌, ◌++◌, None, Ok, Err}
use Rattle.std.proofs.Common.{refl, sym, ap, subst, ◌∙◌}
use Rattle.std.specs.Prelude.{Result, map, IfOk}
use Rattle.wap_base.specs.declared.fault.NoMemory.{NoMemory}
use Rattle.std.specs.List.{AllByRecursion, last_or}
use Rattle.std.specs.Option.{option_to_list}
use Rattle.std.proofs.lemmas.Grind.{flat_map-append}
use Rattle.wap_url.specs.declared.url.Url.{Url}
use Rattle.wap_url.specs.declared.fault.UrlFault.{UrlFault}
use Rattle.wap_url.specs.Calculation.{url_at}
use Rattle.wap_url.specs.Printing.{name_for}
use Rattle.wap_image.specs.declared.context_parts.parts.ContextParts.{ContextParts}
use Rattle.wap_image.specs.Items.{is_text_of, is_entry_text}
use Rattle.wap_world.specs.declared.history.Entry.{Entry}
use Rattle.wap_world.proofs.Entries.{last_pushed}
use Rattle.wap_state.specs.Saved.{entry_with, entries_of}
use Rattle.wap_context.specs.Saved.{asked_for}

-- what holds of all holds of the last
pub last_of : {X : Type 0} (P : X → Type 0) (rest : List X) (last : X)
    → AllByRecursion P (rest ++ last ∷ []) → P last
last_of P [] last all = all.0
last_of P (x ∷ rest) last all = last_of P rest last all.1

-- a text that an entry has is that of a URL
pub url_of : (text : List ℕ) (read : Result Url UrlFault) → is_text_of text read ≡ true
    → (url : Url) × (read ≡ Ok url)
url_of text (Ok url) is = (url, refl)
url_of text (Err fault) is = absurd cc

-- the page of the last entry is asked for
pub asked_last : (parts : ContextParts) (rest : List (List ℕ × ℕ)) (text : List ℕ) (card : ℕ)
    (url : Url) → parts.history ≡ rest ++ (text, card) ∷ [] → url_at text ≡ Ok url
    → asked_for parts ≡ (name_for url, false) ∷ []
asked_last parts rest text card url is reads =
    let entry : Entry = record { url = url; card = card } in
    let entries : entries_of parts.history ≡ entries_of rest ++ entry ∷ [] =
    ap entries_of is
    ∙ flat_map-append (λ part. entry_with part.1 (url_at part.0)) rest ((text, card) ∷ [])
    ∙ ap (λ (r : Result Url UrlFault). entries_of rest ++ (entry_with card r ++ [])) reads in
    ap (λ (all : List Entry). map (λ (one : Entry). (name_for one.url, false))
    (option_to_list (last_or None all))) entries
    ∙ ap (λ last. map (λ (one : Entry). (name_for one.url, false)) (option_to_list last))
    (last_pushed None (entries_of rest) entry)

-- a name that was made of the URL of a text is that of any URL that it reads as
pub named_by : (text : List ℕ) (url : Url) (made : Result (List ℕ) NoMemory) → url_at text ≡ Ok url
    → IfOk made (λ name. name ≡ name_for url)
    → IfOk made (λ name. (other : Url) → url_at text ≡ Ok other → name ≡ name_for other)
named_by text url (Ok name) reads is =
    λ other so. is ∙ ap name_for (one_url url other (sym reads ∙ so))
  where
    one_url : (one other : Url) → ◌≡◌ {A = Result Url UrlFault} (Ok one) (Ok other) → one ≡ other
    one_url one other same = cc
named_by text url (Err fault) reads is = tt

-- so the page of this name is asked for
pub asked_named : (parts : ContextParts) (rest : List (List ℕ × ℕ)) (entry : List ℕ × ℕ)
    (name : List ℕ) → parts.history ≡ rest ++ entry ∷ []
    → AllByRecursion (λ (one : List ℕ × ℕ). is_entry_text one.0 ≡ true) parts.history
    → ((url : Url) → url_at entry.0 ≡ Ok url → name ≡ name_for url)
    → asked_for parts ≡ (name, false) ∷ []
asked_named parts rest entry name is all names =
    let written = last_of (λ (one : List ℕ × ℕ). is_entry_text one.0 ≡ true) rest entry
    (subst (AllByRecursion (λ (one : List ℕ × ℕ). is_entry_text one.0 ≡ true)) is all) in
    let (url, reads) = url_of entry.0 (url_at entry.0) written in
    asked_last parts rest entry.0 entry.1 url is reads
    ∙ ap (λ (n : List ℕ). (n, false) ∷ []) (sym (names url reads))
