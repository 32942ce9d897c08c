-- What is written for elements is read as these elements.
use Rattle.std.proofs.Common.{◌≡◌, ◌≢◌, ℕ, zero, suc, ◌+◌, ◌%◌, ◌^◌, ◌<◌, ◌≤◌, Bool}
use Rattle.std.proofs.Common.{true, false, eqb, List, [], ◌∷◌, ◌++◌, refl, sym, ap}
use Rattle.std.proofs.Common.{subst, ◌∙◌, append_assoc, arith}
use Rattle.std.specs.List.{fold, AllByRecursion}
use Rattle.std.proofs.lemmas.Bool.Decides.{nat_tests}
use Rattle.std.proofs.lemmas.Bool.{le-leb, lt-leb}
use Rattle.wap_base.specs.Numbers.{mb_spelling}
use Rattle.wap_base.specs.declared.name.Conv.{Conv}
use Rattle.wap_base.specs.declared.name.Conv.TheVariants.{Escape, Unescape, Plain}
use Rattle.wap_tokens.specs.declared.markup.codes.TheConstants.{END, ENTITY, STR_I, LITERAL}
use Rattle.wap_tokens.specs.declared.markup.codes.TheConstants.{EXT_0, OPAQUE, PI}
use Rattle.wap_tokens.specs.declared.markup.document.Element.{Element}
use Rattle.wap_tokens.specs.declared.markup.document.Attr.{Attr}
use Rattle.wap_tokens.specs.declared.markup.document.Token.{Token}
use Rattle.wap_tokens.specs.declared.markup.document.Token.TheVariants.{Code, Literal}
use Rattle.wap_tokens.specs.declared.markup.document.Kid.{Kid, out-Kid}
use Rattle.wap_tokens.specs.declared.markup.document.Kid.TheOpen.{Kid-F}
use Rattle.wap_tokens.specs.declared.markup.document.Kid.TheViews.{roll-Kid, roll-out-Kid}
use Rattle.wap_tokens.specs.declared.markup.document.Kid.TheVariants as kid
use Rattle.wap_tokens.specs.declared.markup.mark.Lead.{Lead}
use Rattle.wap_tokens.specs.declared.markup.mark.Leaf.{Leaf}
use Rattle.wap_tokens.specs.declared.markup.mark.Leaf.TheVariants as leaf
use Rattle.wap_tokens.specs.declared.markup.mark.LeafMark.{LeafMark}
use Rattle.wap_tokens.specs.declared.markup.mark.LeafMark.TheVariants as mark
use Rattle.wap_tokens.specs.declared.markup.mark.Role.TheVariants.{Shown, Variable}
use Rattle.wap_tokens.specs.declared.markup.mark.ContentMark.{ContentMark}
use Rattle.wap_tokens.specs.declared.markup.mark.ContentMark.TheVariants as content
use Rattle.wap_tokens.specs.markup.Codes.{leaf_mark, content_mark, has_attributes, has_content}
use Rattle.wap_tokens.specs.markup.Codes.{is_named}
use Rattle.wap_tokens.specs.markup.Strings.{Strings}
use Rattle.wap_tokens.specs.markup.Grammar.{State, on_tag_page, with_name, table_size, IsLead}
use Rattle.wap_tokens.specs.markup.Grammar.{IsLeaf, IsTagBehind, IsAttribute, Elements, IsKidBehind}
use Rattle.wap_tokens.specs.markup.Grammar.{IsKid, kid_of, IsElementOf, IsElement}
use Rattle.wap_wbxml.specs.declared.spelling.output.Pages.{Pages}
use Rattle.wap_wbxml.specs.spelling.Writings.{◌⨾◌, ended, switch}
use Rattle.wap_wbxml.specs.spelling.Names.{KidLevel, string, table_of, place_of, with_token}
use Rattle.wap_wbxml.specs.spelling.Names.{with_attr}
use Rattle.wap_wbxml.specs.spelling.Names.{with_opened, with_kid, with_element_of, with_element}
use Rattle.wap_wbxml.specs.spelling.Spelling.{sized, variable, attr_spelling, instruction_spelling}
use Rattle.wap_wbxml.specs.spelling.Spelling.{bit, bits, tag_spelling, opened_spelling}
use Rattle.wap_wbxml.specs.spelling.Spelling.{kid_spelling, element_by, element_spelling}
use Rattle.wap_wbxml.specs.spelling.Spellable.{IsString, FitsTag, FitsAttr, FitsOpened}
use Rattle.wap_wbxml.specs.spelling.Spellable.{FitsKid, FitsElementOf, FitsElement}
use Rattle.wap_wbxml.proofs.SpellingLemmas.Strings.{in_utf8}
use Rattle.wap_wbxml.proofs.SpellingLemmas.Growing.{Grows, grows_on, grows-with_attr}
use Rattle.wap_wbxml.proofs.SpellingLemmas.Growing.{grows-with_kid, grows-with_element, grows-fold}
use Rattle.wap_wbxml.proofs.SpellingLemmas.States.{state_at, some_of, ended_read}
use Rattle.wap_wbxml.proofs.SpellingLemmas.AttributeLaws.{lead_read, text_leaf, variable_leaf}
use Rattle.wap_wbxml.proofs.SpellingLemmas.AttributeLaws.{entity_leaf, opaque_leaf, extension_by}
use Rattle.wap_wbxml.proofs.SpellingLemmas.AttributeLaws.{variable_some, name_read, attr_read}

-- ---- what the byte of a tag says

record TagByte (code byte : ℕ) (attributes kids : Bool) : Type 0 where
  code_is : byte % 64 ≡ code
  attributes_are : has_attributes byte ≡ attributes
  content_is : has_content byte ≡ kids

tag_byte : {A B : Type 0} (code : ℕ) (attrs : List A) (kids : List B) → code < 64
    → TagByte code (code + (bit 128 attrs + bit 64 kids)) (some_of attrs) (some_of kids)
tag_byte code [] [] small = record {
  code_is = omega arith;
  attributes_are = lt-leb 128 (code + (0 + 0)) (omega arith);
  content_is = lt-leb 64 ((code + (0 + 0)) % 128) (omega arith);
}
tag_byte code [] (kid ∷ kids) small = record {
  code_is = omega arith;
  attributes_are = lt-leb 128 (code + (0 + 64)) (omega arith);
  content_is = le-leb 64 ((code + (0 + 64)) % 128) (omega arith);
}
tag_byte code (attr ∷ attrs) [] small = record {
  code_is = omega arith;
  attributes_are = le-leb 128 (code + (128 + 0)) (omega arith);
  content_is = lt-leb 64 ((code + (128 + 0)) % 128) (omega arith);
}
tag_byte code (attr ∷ attrs) (kid ∷ kids) small = record {
  code_is = omega arith;
  attributes_are = le-leb 128 (code + (128 + 64)) (omega arith);
  content_is = le-leb 64 ((code + (128 + 64)) % 128) (omega arith);
}

element_mark : (lead : Lead) → LITERAL ≤ lead.byte % 64 → content_mark lead ≡ content.Element
unfolding content_mark
element_mark lead code = grind (arith, nat_tests)

coded_tag : (byte code : ℕ) → byte % 64 ≡ code → LITERAL < code → is_named byte ≡ false
coded_tag byte code is above = grind (arith, nat_tests)

variable_mark : (page : ℕ) (conv : Conv)
    → content_mark (record { switched = false; page = page; byte = variable conv })
    ≡ content.Leaf (mark.Inline (Variable conv))
unfolding content_mark leaf_mark
variable_mark page Escape = refl
variable_mark page Unescape = refl
variable_mark page Plain = refl

module _ (all : List (List ℕ)) (size : table_size all < 2 ^ 32) where
  abbrev in_table : Strings
  in_table = in_utf8 (table_of all)

  -- ---- content

  leaf_kid : (Inner : Elements) (pages : Pages) (names : List (List ℕ)) (byte : ℕ) (rest : List ℕ)
      (m : LeafMark) (l : Leaf)
      (k : Kid) → byte ≢ 0
      → content_mark (record { switched = false; page = pages.tag; byte = byte }) ≡ content.Leaf m
      → IsLeaf in_table m rest l → k ≡ kid_of l
      → IsKid in_table Inner (state_at pages names) (byte ∷ rest) (k, state_at pages names)
  leaf_kid Inner pages names byte rest m l k some is reads same =
      let lead : Lead = record { switched = false; page = pages.tag; byte = byte } in
      record {
        front = byte ∷ [];
        rest = rest;
        spelled = refl;
        a = lead;
        first = (some, refl);
        next = subst
            (λ (c : ContentMark). IsKidBehind in_table Inner (state_at pages names) lead c rest
            (k, state_at pages names)) (sym is)
            (record {
              a = l;
              is = reads;
              made = ap (λ (k : Kid). let x : Kid × State = (k, state_at pages names) in x) same;
            });
      }

  pi_kid : (Inner : Elements) (pages : Pages) (names : List (List ℕ)) (attr : Attr)
      → FitsAttr IsString attr
      → Grows (with_attr names attr) all
      → IsKid in_table Inner (state_at pages names) (instruction_spelling all attr pages).0 (
        roll-Kid (Kid-F.Pi attr),
        state_at (instruction_spelling all attr pages).1 (with_attr names attr),
      )
  unfolding ◌⨾◌ content_mark
  pi_kid Inner pages names attr fits grown =
      let lead : Lead = record { switched = false; page = pages.tag; byte = PI } in
      let one = attr_spelling all attr pages in
      let after = state_at one.1 (with_attr names attr) in
      record {
        front = PI ∷ [];
        rest = one.0 ++ END ∷ [];
        spelled = refl;
        a = lead;
        first = (λ e. absurd (omega (arith, e)), refl);
        next = record {
          a = (attr, after);
          is = (one.0, refl, attr_read all size pages names attr fits grown);
          made = ap (λ (k : Kid). let x : Kid × State = (k, after) in x) (kid.rolls-Pi attr);
        };
      }

  -- an element that is written is read after its tag
  pub record ElementRead (Is : Elements) (pages : Pages) (names : List (List ℕ)) (element : Element)
      (written : List ℕ × Pages)
      (named : List (List ℕ)) : Type 0 where
    pub front : List ℕ
    pub rest : List ℕ
    pub split : written.0 ≡ front ++ rest
    pub lead : Lead
    pub leads : IsLead pages.tag front lead
    pub is_element : content_mark lead ≡ content.Element
    pub reads : Is (state_at pages names) lead rest (element, state_at written.1 named)

  -- elements of so many levels are read
  unfoldable pub Reads : ℕ → Type 0
  Reads levels =
      (pages : Pages) (names : List (List ℕ)) (element : Element)
      → FitsElement IsString levels element
      → Grows (with_element levels names element) all
      → ElementRead (IsElement in_table levels) pages names element
      (element_spelling all levels element pages)
      (with_element levels names element)

  element_kid : (levels : ℕ) → Reads levels
      → (pages : Pages) (names : List (List ℕ)) (element : Element)
      → FitsElement IsString levels element → Grows (with_element levels names element) all
      → IsKid in_table (IsElement in_table levels) (state_at pages names)
      (element_spelling all levels element pages).0 (
        roll-Kid (Kid-F.Element element),
        state_at (element_spelling all levels element pages).1 (with_element levels names element),
      )
  unfolding Reads
  element_kid levels reads pages names element fits grown =
      let one = reads pages names element fits grown in
      let after =
      state_at (element_spelling all levels element pages).1 (with_element levels names element) in
      record {
        front = one.front;
        rest = one.rest;
        spelled = one.split;
        a = one.lead;
        first = one.leads;
        next = subst
            (λ (c : ContentMark).
            IsKidBehind in_table (IsElement in_table levels)
            (state_at pages names) one.lead c one.rest
            (roll-Kid (Kid-F.Element element), after)) (sym one.is_element)
            (record {
              a = (element, after);
              is = one.reads;
              made =
                  ap (λ (k : Kid). let x : Kid × State = (k, after) in x)
                  (kid.rolls-Element element);
            });
      }

  opened_read : (levels : ℕ) → Reads levels
      → (pages : Pages) (names : List (List ℕ)) (level : KidLevel)
      → FitsOpened IsString (FitsElement IsString levels) level
      → Grows (with_opened (with_element levels) names level) all
      → let written = opened_spelling all (element_spelling all levels) level pages in
      IsKid in_table (IsElement in_table levels) (state_at pages names) written.0
      (roll-Kid level, state_at written.1 (with_opened (with_element levels) names level))
  unfolding content_mark leaf_mark
  opened_read levels reads pages names (Kid-F.Element element) fits grown =
      element_kid levels reads pages names element fits grown
  opened_read levels reads pages names (Kid-F.Pi attr) fits grown =
      pi_kid (IsElement in_table levels) pages names attr fits grown
  opened_read levels reads pages names (Kid-F.Str text) fits grown =
      leaf_kid (IsElement in_table levels) pages names STR_I (string text) (mark.Inline Shown)
      (leaf.Str text) (roll-Kid (Kid-F.Str text))
      (λ e. absurd (omega (arith, e))) refl (text_leaf (table_of all) text fits)
      (kid.rolls-Str text)
  opened_read levels reads pages names (Kid-F.Entity number) fits grown =
      leaf_kid (IsElement in_table levels) pages names ENTITY (mb_spelling number) mark.Entity
      (leaf.Entity number) (roll-Kid (Kid-F.Entity number))
      (λ e. absurd (omega (arith, e))) refl (entity_leaf (table_of all) number fits)
      (kid.rolls-Entity number)
  opened_read levels reads pages names (Kid-F.Var name conv) fits grown =
      leaf_kid (IsElement in_table levels) pages names (variable conv) (string name)
      (mark.Inline (Variable conv)) (leaf.Var name conv)
      (roll-Kid (Kid-F.Var name conv)) (variable_some conv) (variable_mark pages.tag conv)
      (variable_leaf (table_of all) name conv fits) (kid.rolls-Var name conv)
  opened_read levels reads pages names (Kid-F.Ext number) fits grown =
      extension_by
      (λ (n : ℕ).
      IsKid in_table (IsElement in_table levels) (state_at pages names) ((EXT_0 + n) ∷ [])
      (roll-Kid (Kid-F.Ext n), state_at pages names))
      (leaf_kid (IsElement in_table levels) pages names EXT_0 [] (mark.Extension 0) (leaf.Ext 0)
      (roll-Kid (Kid-F.Ext 0))
      (λ e. absurd (omega (arith, e))) refl (refl, refl) (kid.rolls-Ext 0))
      (leaf_kid (IsElement in_table levels) pages names (EXT_0 + 1) [] (mark.Extension 1)
      (leaf.Ext 1) (roll-Kid (Kid-F.Ext 1))
      (λ e. absurd (omega (arith, e))) refl (refl, refl) (kid.rolls-Ext 1))
      (leaf_kid (IsElement in_table levels) pages names (EXT_0 + 2) [] (mark.Extension 2)
      (leaf.Ext 2) (roll-Kid (Kid-F.Ext 2))
      (λ e. absurd (omega (arith, e))) refl (refl, refl) (kid.rolls-Ext 2))
      number fits
  opened_read levels reads pages names (Kid-F.Opaque bytes) fits grown =
      leaf_kid (IsElement in_table levels) pages names OPAQUE (sized bytes) mark.Opaque
      (leaf.Opaque bytes) (roll-Kid (Kid-F.Opaque bytes))
      (λ e. absurd (omega (arith, e))) refl (opaque_leaf (table_of all) bytes fits)
      (kid.rolls-Opaque bytes)

  kid_read : (levels : ℕ) → Reads levels → (pages : Pages) (names : List (List ℕ)) (k : Kid)
      → FitsKid IsString (FitsElement IsString levels) k
      → Grows (with_kid (with_element levels) names k) all
      → let written = kid_spelling all (element_spelling all levels) k pages in
      IsKid in_table (IsElement in_table levels) (state_at pages names) written.0
      (k, state_at written.1 (with_kid (with_element levels) names k))
  kid_read levels reads pages names k fits grown =
      let written = kid_spelling all (element_spelling all levels) k pages in
      let after = state_at written.1 (with_kid (with_element levels) names k) in
      subst (λ (k : Kid).
      IsKid in_table (IsElement in_table levels) (state_at pages names) written.0 (k, after))
      (roll-out-Kid k) (opened_read levels reads pages names (out-Kid k) fits grown)

  -- ---- elements

  -- after the tag: attributes and content
  behind_tag : (levels : ℕ) → Reads levels
      → (pages : Pages) (names : List (List ℕ)) (element : Element) (lead : Lead)
      (code : ℕ) → TagByte code lead.byte (some_of element.attrs) (some_of element.kids)
      → lead.page ≡ element.page
      → (tagging : List ℕ)
      → IsTagBehind in_table (on_tag_page lead.page (state_at pages names)) lead.byte
      (is_named lead.byte) tagging
      (element.tag, state_at (record pages { tag = element.page }) (with_token names element.tag))
      → AllByRecursion (FitsAttr IsString) element.attrs
      → AllByRecursion (FitsKid IsString (FitsElement IsString levels)) element.kids
      → Grows (with_element_of (with_element levels) names element) all
      → let others = ended (attr_spelling all) element.attrs
      ⨾ ended (kid_spelling all (element_spelling all levels)) element.kids in
      let written = others (record pages { tag = element.page }) in
      IsElementOf in_table (IsElement in_table levels) (state_at pages names) lead
      (tagging ++ written.0)
      (element, state_at written.1 (with_element_of (with_element levels) names element))
  unfolding ◌⨾◌ IsElementOf
  behind_tag levels reads pages names element lead code byte page tagging is attrs kids grown =
      let on : Pages = record pages { tag = element.page } in
      let tagged = with_token names element.tag in
      let named = fold with_attr tagged element.attrs in
      let attributes = ended (attr_spelling all) element.attrs on in
      let inside =
      ended (kid_spelling all (element_spelling all levels)) element.kids attributes.1 in
      let inner = with_kid (with_element levels) in
      let grow = grows-with_kid (with_element levels) (grows-with_element levels) in
      let fits_attributes : Grows named all =
      grows_on (grows-fold inner grow named element.kids) grown in
      record {
        front = tagging;
        rest = attributes.0 ++ inside.0;
        spelled = refl;
        a = (element.tag, state_at on tagged);
        first = is;
        next = record {
          front = attributes.0;
          rest = inside.0;
          spelled = refl;
          a = (element.attrs, state_at attributes.1 named);
          first =
              ended_read (attr_spelling all) with_attr state_at (IsAttribute in_table)
              (FitsAttr IsString) (λ n. Grows n all)
              (λ n x g. grows_on (grows-with_attr n x) g) (attr_read all size)
              (has_attributes lead.byte) on tagged
              element.attrs byte.attributes_are attrs fits_attributes;
          next = record {
            a = (element.kids, state_at inside.1 (fold inner named element.kids));
            is =
                ended_read (kid_spelling all (element_spelling all levels)) inner state_at
                (IsKid in_table (IsElement in_table levels))
                (FitsKid IsString (FitsElement IsString levels)) (λ n. Grows n all)
                (λ n x g. grows_on (grow n x) g) (kid_read levels reads)
                (has_content lead.byte) attributes.1 named
                element.kids byte.content_is kids grown;
            made = ap
                (λ (p : ℕ).
                let x : Element × State = (
                  record {
                    page = p;
                    tag = element.tag;
                    attrs = element.attrs;
                    kids = element.kids;
                  },
                  state_at inside.1 (fold inner named element.kids),
                ) in x) (sym page);
          };
        };
      }

  tag_by : (levels : ℕ) → Reads levels
      → (pages : Pages) (names : List (List ℕ)) (element : Element) (tag : Token)
      → element.tag ≡ tag → FitsElementOf IsString (FitsElement IsString levels) element
      → Grows (with_element_of (with_element levels) names element) all
      → ElementRead (IsElementOf in_table (IsElement in_table levels)) pages names element
      (element_by all (element_spelling all levels) element pages)
      (with_element_of (with_element levels) names element)
  unfolding ◌⨾◌
  tag_by levels reads pages names element (Code code) is fits grown =
      let fits_tag : FitsTag IsString (Code code) = subst (FitsTag IsString) is fits.tag in
      let follows = bits element in
      let byte = tag_byte code element.attrs element.kids fits_tag.1 in
      let some : code + follows ≢ 0 = λ e. absurd (let above = fits_tag.0 in omega arith) in
      let found = lead_read pages.tag element.page (code + follows) some in
      let lead : Lead = record { switched = found.0; page = element.page; byte = code + follows } in
      let change = switch pages.tag element.page in
      let on : Pages = record pages { tag = element.page } in
      let others =
      (ended (attr_spelling all) element.attrs
      ⨾ ended (kid_spelling all (element_spelling all levels)) element.kids) on in
      let coded = coded_tag (code + follows) code byte.code_is fits_tag.0 in
      record {
        front = change ++ (code + follows) ∷ [];
        rest = others.0;
        split =
            ap (λ (t : Token). change ++ (tag_spelling all follows t ++ others.0)) is
            ∙ sym (append_assoc change ((code + follows) ∷ []) others.0);
        lead = lead;
        leads = found.1;
        is_element =
            element_mark lead (let same = byte.code_is in let above = fits_tag.0 in omega arith);
        reads = behind_tag levels reads pages names element lead code byte refl []
            (subst (λ (b : Bool). IsTagBehind in_table (state_at on names) (code + follows) b []
            (element.tag, state_at on (with_token names element.tag))) (sym coded) (
              refl,
              ap (λ (t : Token).
                  let x : Token × State = (t, state_at on (with_token names t)) in x) is
                  ∙ ap (λ (c : ℕ). let x : Token × State = (Code c, state_at on names) in x)
                  (sym byte.code_is),
            ))
            fits.attrs fits.kids grown;
      }
  tag_by levels reads pages names element (Literal name) is fits grown =
      let fits_tag : IsString name = subst (FitsTag IsString) is fits.tag in
      let follows = bits element in
      let byte = tag_byte LITERAL element.attrs element.kids (omega arith) in
      let some : LITERAL + follows ≢ 0 = λ e. absurd (omega arith) in
      let found = lead_read pages.tag element.page (LITERAL + follows) some in
      let lead : Lead =
      record { switched = found.0; page = element.page; byte = LITERAL + follows } in
      let change = switch pages.tag element.page in
      let on : Pages = record pages { tag = element.page } in
      let others =
      (ended (attr_spelling all) element.attrs
      ⨾ ended (kid_spelling all (element_spelling all levels)) element.kids) on in
      let place = mb_spelling (place_of all name) in
      let grow = grows-with_kid (with_element levels) (grows-with_element levels) in
      let tagged = with_token names element.tag in
      let fits_name : Grows (with_name names name) all =
      subst (λ (t : Token). Grows (with_token names t) all) is
      (grows_on (grows-fold with_attr grows-with_attr tagged element.attrs)
      (grows_on (grows-fold (with_kid (with_element levels)) grow
      (fold with_attr tagged element.attrs) element.kids) grown)) in
      let named : is_named (LITERAL + follows) ≡ true =
      ap (λ (n : ℕ). eqb n LITERAL) byte.code_is in
      record {
        front = change ++ (LITERAL + follows) ∷ [];
        rest = place ++ others.0;
        split =
            ap (λ (t : Token). change ++ (tag_spelling all follows t ++ others.0)) is
            ∙ sym (append_assoc change ((LITERAL + follows) ∷ []) (place ++ others.0));
        lead = lead;
        leads = found.1;
        is_element = element_mark lead (let same = byte.code_is in omega arith);
        reads = behind_tag levels reads pages names element lead LITERAL byte refl place
            (subst (λ (b : Bool).
            IsTagBehind in_table (state_at on names) (LITERAL + follows) b place
            (element.tag, state_at on (with_token names element.tag))) (sym named)
            (record {
              a = (name, state_at on (with_name names name));
              is = name_read all size on names name fits_tag fits_name;
              made =
                  ap (λ (t : Token).
                  let x : Token × State = (t, state_at on (with_token names t)) in x) is;
            }))
            fits.attrs fits.kids grown;
      }

  pub element_read : (levels : ℕ) → Reads levels
  unfolding Reads element_spelling with_element FitsElement IsElement
  element_read zero = λ pages names element fits grown. absurd fits
  element_read (suc levels) = λ pages names element fits grown.
      let one =
      tag_by levels (element_read levels) pages names element element.tag refl fits grown in
      record {
        front = one.front;
        rest = one.rest;
        split = one.split;
        lead = one.lead;
        leads = one.leads;
        is_element = one.is_element;
        reads = one.reads;
      }
