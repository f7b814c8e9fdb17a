mod DefaultLaws
mod ListLaws
mod NullLaws
mod OptionLaws
mod RuleLaws
