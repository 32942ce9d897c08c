-- What is written for a document is read as its canon.
use Rattle.std.proofs.Common.{◌≡◌, ℕ, ◌^◌, ◌<◌, Bool, true, false, eqb, List, [], ◌∷◌, ◌++◌}
use Rattle.std.proofs.Common.{length, refl, sym, ap, subst, ◌∙◌, append_assoc, arith}
use Rattle.std.proofs.lemmas.Bool.Decides.{nat_tests}
use Rattle.std.proofs.lemmas.List.{append-nil}
use Rattle.wap_base.specs.Numbers.{mb_spelling}
use Rattle.wap_base.specs.declared.charset.Charset.TheVariants.{Utf8}
use Rattle.wap_tokens.specs.declared.markup.document.Document.{Document}
use Rattle.wap_tokens.specs.declared.markup.document.TheConstants.{LEVEL_LIMIT}
use Rattle.wap_tokens.specs.declared.markup.mark.ContentMark.{ContentMark}
use Rattle.wap_tokens.specs.declared.markup.mark.DocumentType.TheVariants.{Wml}
use Rattle.wap_tokens.specs.declared.markup.mark.Identifier.TheVariants.{Numbered}
use Rattle.wap_tokens.specs.markup.Spellings.{none}
use Rattle.wap_tokens.specs.markup.Strings.{Strings}
use Rattle.wap_tokens.specs.markup.Grammar.{State, IsOpaque}
use Rattle.wap_tokens.specs.markup.Documents.{is_public, IsIdentifier, IsIdentifierBehind}
use Rattle.wap_tokens.specs.markup.Documents.{IsRootBehind, IsRoot, first_state, into_root}
use Rattle.wap_tokens.specs.markup.Documents.{out_of_root, IsBody, IsDocument, IsDocumentOf}
use Rattle.wap_tokens.specs.declared.markup.codes.TheConstants.{VERSION, CHARSET}
use Rattle.wap_wbxml.specs.spelling.Names.{table_of, names_of}
use Rattle.wap_wbxml.specs.spelling.Spelling.{sized, first_pages, element_spelling}
use Rattle.wap_wbxml.specs.spelling.Spelling.{root_spelling, spelling, canon}
use Rattle.wap_wbxml.specs.spelling.Spellable.{IsSpellable, HasTexts}
use Rattle.wap_wbxml.proofs.SpellingLemmas.Tables.{length-table}
use Rattle.wap_wbxml.proofs.SpellingLemmas.Strings.{in_utf8, number_read}
use Rattle.wap_wbxml.proofs.SpellingLemmas.Growing.{grows_same}
use Rattle.wap_wbxml.proofs.SpellingLemmas.States.{state_at}
use Rattle.wap_wbxml.proofs.SpellingLemmas.ElementLaws.{Reads, element_read}

public_small : (number : ℕ) → is_public number ≡ true → number < 2 ^ 32
public_small number is = grind (arith, nat_tests)

public_some : (number : ℕ) → is_public number ≡ true → eqb number 0 ≡ false
public_some number is = grind (arith, nat_tests)

module _ (document : Document) (is : IsSpellable document) (texts : HasTexts document) where
  abbrev names : List (List ℕ)
  names = names_of document

  abbrev strings : Strings
  strings = in_utf8 (table_of names)

  abbrev after : State
  after = state_at (element_spelling names LEVEL_LIMIT document.root first_pages).1 names

  root_read : IsRoot strings (into_root first_state) (root_spelling names document.root)
      (document.root, after)
  unfolding IsRoot Reads
  root_read =
      let one =
      element_read names is.names LEVEL_LIMIT first_pages [] document.root texts
      (grows_same names) in
      record {
        front = one.front;
        rest = one.rest;
        spelled = one.split;
        a = one.lead;
        first = one.leads;
        next = subst
            (λ (c : ContentMark).
            IsRootBehind strings (into_root first_state) one.lead c one.rest (document.root, after))
            (sym one.is_element) one.reads;
      }

  body_read : IsBody strings (root_spelling names document.root) document.root
  unfolding IsBody
  body_read =
      record {
        front = [];
        rest = root_spelling names document.root;
        spelled = refl;
        a = ([], first_state);
        first = none first_state;
        next = record {
          front = root_spelling names document.root;
          rest = [];
          spelled = sym (append-nil (root_spelling names document.root));
          a = (document.root, after);
          first = root_read;
          next = record { a = ([], out_of_root after); is = none (out_of_root after); made = refl };
        };
      }

  identifier_read : IsIdentifier Wml (mb_spelling document.public) (Numbered document.public)
  identifier_read = record {
    front = mb_spelling document.public;
    rest = [];
    spelled = sym (append-nil (mb_spelling document.public));
    a = document.public;
    first = number_read document.public (public_small document.public is.public);
    next =
        subst (λ (b : Bool). IsIdentifierBehind Wml document.public b [] (Numbered document.public))
        (sym (public_some document.public is.public)) ((refl, refl), is.public);
  }

  table_read : IsOpaque (sized (table_of names)) (table_of names)
  table_read =
      let len = length-table names in
      let fits = is.names in
      record {
        front = mb_spelling (length (table_of names));
        rest = table_of names;
        spelled = refl;
        a = length (table_of names);
        first = number_read (length (table_of names)) (omega arith);
        next = (refl, refl);
      }

  pub document_read : IsDocument (spelling document) (canon document)
  unfolding IsDocumentOf spelling
  document_read =
      let root = root_spelling names document.root in
      let table = sized (table_of names) in
      let public = mb_spelling document.public in
      let charset = mb_spelling CHARSET in
      record {
        front = VERSION ∷ [];
        rest = public ++ (charset ++ (table ++ root));
        spelled =
            ap (λ (l : List ℕ). VERSION ∷ l)
            (append_assoc public (charset ++ table) root
            ∙ ap (λ (l : List ℕ). public ++ l) (append_assoc charset table root));
        a = VERSION;
        first = (refl, refl);
        next = record {
          front = public;
          rest = charset ++ (table ++ root);
          spelled = refl;
          a = Numbered document.public;
          first = identifier_read;
          next = record {
            front = charset;
            rest = table ++ root;
            spelled = refl;
            a = (CHARSET, Utf8);
            first = (number_read CHARSET (omega arith), refl);
            next = record {
              front = table;
              rest = root;
              spelled = refl;
              a = table_of names;
              first = table_read;
              next = record {
                front = [];
                rest = root;
                spelled = refl;
                a = document.public;
                first = (refl, refl);
                next = record { a = document.root; is = body_read; made = refl };
              };
            };
          };
        };
      }
