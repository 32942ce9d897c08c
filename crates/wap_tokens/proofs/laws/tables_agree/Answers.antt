use Rattle.wap_tokens.proofs.TagTable as tag
use Rattle.wap_tokens.proofs.AttributeTable as attribute
use Rattle.wap_tokens.proofs.ValueTable as value
use Rattle.wap_tokens.proofs.laws.tables_agree.Goals as goal

pub returns-clause-tags : goal.returns-clause-tags
returns-clause-tags c =
    record { coded = tag.coded; named = tag.named; code = tag.code; name = tag.name }

pub returns-clause-attributes : goal.returns-clause-attributes
returns-clause-attributes c = record {
  named = attribute.named;
  name = attribute.name;
  start = attribute.start;
  code = attribute.code;
  started = attribute.started;
}

pub returns-clause-values : goal.returns-clause-values
returns-clause-values c = record { apart = value.apart }
